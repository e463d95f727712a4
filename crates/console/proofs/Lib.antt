pub mod Writing
pub mod OutLine
pub mod Reported
pub mod ConsoleRun
pub mod Printed
