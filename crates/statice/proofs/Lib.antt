mod OneAnswer
mod Taking
mod Finding
mod Legality
mod Endings
