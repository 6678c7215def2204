pub mod RowLoop
pub mod CheckLoop
pub mod Rules
