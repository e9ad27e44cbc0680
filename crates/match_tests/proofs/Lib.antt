mod OfBits
mod OfKeys
