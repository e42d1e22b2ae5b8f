mod Written
mod OneAnswer
mod Promises
