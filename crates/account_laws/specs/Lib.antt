pub mod Found
pub mod Rises
pub mod RiseRows
pub mod Distinct
