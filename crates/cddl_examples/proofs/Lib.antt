pub mod Printed
pub mod SoFar
