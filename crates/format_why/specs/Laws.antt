pub mod Mark
pub mod Room
