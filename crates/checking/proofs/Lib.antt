pub mod SurveyLoop
pub mod Findings
pub mod Conclusions
pub mod Answers
pub mod Demand
pub mod ByReport
pub mod Bounds
