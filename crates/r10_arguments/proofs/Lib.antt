mod Giving
mod OptionsByWords
mod Words
