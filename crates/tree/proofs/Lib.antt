-- sums over worlds, for every semiring, and brackets
pub mod Membership
pub mod Sums
pub mod Shares
pub mod Nearness
-- where nodes stand in a layout; the nodes determine the form; building
pub mod Spreads
pub mod Nested
pub mod Unique
pub mod Placing
pub mod Building
-- the passes over nodes
pub mod Progress
pub mod Visits
pub mod Turns
pub mod Folding
pub mod Filling
-- the text
pub mod TextTurns
pub mod Lengths
