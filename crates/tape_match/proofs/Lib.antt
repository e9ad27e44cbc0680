mod Again
mod Left
mod Says
