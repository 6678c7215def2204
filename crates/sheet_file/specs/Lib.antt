pub mod Sheet
pub mod Written
pub mod Valid
