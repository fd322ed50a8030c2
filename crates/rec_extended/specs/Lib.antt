pub mod Contents
pub mod RouteContents
