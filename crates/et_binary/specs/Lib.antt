pub mod FollowedPacks
pub mod Formats
pub mod Fronts
pub mod Packing
pub mod Packs
pub mod Unpacking
