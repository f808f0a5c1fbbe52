-- A session stands for a trace with one event more.
pub mod Stands
