mod Entries
mod OfSpliced
mod OfMapFaults
mod OfMapCycles
