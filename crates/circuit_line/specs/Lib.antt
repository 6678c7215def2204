pub mod Numbers
pub mod Section
