mod OfChains
mod OfCycles
mod OfImplications
