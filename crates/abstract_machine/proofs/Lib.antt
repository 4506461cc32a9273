pub mod Plugging
pub mod Sound
pub mod Transitions
pub mod Rules
