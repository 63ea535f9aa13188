pub mod Subtasks
