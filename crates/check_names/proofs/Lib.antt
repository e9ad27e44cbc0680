mod OfEnvironment
mod OfKinds
