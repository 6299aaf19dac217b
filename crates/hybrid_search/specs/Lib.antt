-- the definitions in public contracts
pub mod Bred
