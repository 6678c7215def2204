pub mod Causes
pub mod ReportLoop
pub mod WordLaws
pub mod WordLoop
