pub mod Groups
pub mod Changes
