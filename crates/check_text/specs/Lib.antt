pub mod Codes
pub mod Everywhere
pub mod First
pub mod RuleFaults
pub mod SiteFaults
