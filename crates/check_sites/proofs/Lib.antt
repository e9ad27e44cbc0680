mod OfSites
mod OfEntries
