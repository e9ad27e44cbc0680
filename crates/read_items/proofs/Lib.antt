mod OfForm
pub mod OfWhole
