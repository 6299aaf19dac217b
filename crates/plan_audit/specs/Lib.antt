-- the definitions in public contracts
pub mod Alone
pub mod Laws
pub mod Locality
pub mod Passes
pub mod Printing
pub mod Rules
pub mod Verdict
-- the definitions in private contracts
pub mod FirstFault
