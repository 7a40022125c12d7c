pub mod AnswerText
pub mod Buffer
pub mod Outgoing
pub mod RowData
pub mod Examples
pub mod Made
pub mod Sent
