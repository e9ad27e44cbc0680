mod Exchanges
mod Pieces
