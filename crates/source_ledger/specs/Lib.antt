pub mod Stretches
pub mod Marks
pub mod Boots
pub mod Generations
pub mod Numbers
pub mod Rises
pub mod Flows
pub mod Fields
