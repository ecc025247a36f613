pub mod Entries
mod HasRun
mod StepsThere
mod Kept
mod Longest
mod Outputs
pub mod Rewritten
pub mod Sequence
mod Sizes
mod Sound
mod TestsAgree
mod Walked
