pub mod Operand
pub mod Sign
pub mod Reach
pub mod Numbering
pub mod Reached
pub mod Normal
pub mod Form
