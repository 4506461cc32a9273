pub mod RightSides
pub mod Stacks
pub mod Loops
pub mod Counting
