mod Adding
mod Firsts
