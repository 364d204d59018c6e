pub mod Jobs
pub mod Pages
