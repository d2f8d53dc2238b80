pub mod Views
pub mod ProcessViews
