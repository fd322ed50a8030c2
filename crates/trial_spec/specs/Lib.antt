pub mod Newest
pub mod VisibleTests
pub mod CloseTests
pub mod ApparentTests
pub mod PremiseTests
pub mod Made
pub mod MadeRows
