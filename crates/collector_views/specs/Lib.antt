pub mod Views
pub mod InterfaceViews
