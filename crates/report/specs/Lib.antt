pub mod ReportText
pub mod ReportRows
