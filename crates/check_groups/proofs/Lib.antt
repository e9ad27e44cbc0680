mod OfCauses
mod OfChoosing
mod OfEmpty
mod OfSplices
