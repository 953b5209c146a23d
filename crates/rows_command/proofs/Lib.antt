mod Listings
mod PrintLemmas
