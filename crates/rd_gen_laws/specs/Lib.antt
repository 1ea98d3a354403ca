pub mod WellEnded
