-- the definitions that public contracts use
pub mod Days
pub mod Frame
pub mod Heads
pub mod DrawnStops
pub mod Labels
pub mod Laws
pub mod Map
pub mod Picture
pub mod Styles
pub mod Svg
pub mod Table
pub mod Tags
pub mod WellFormed
pub mod Words
