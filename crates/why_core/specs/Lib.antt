pub mod Visit
pub mod Walk
pub mod Replay
pub mod Parted
pub mod Kept
pub mod Asked
pub mod Laws
