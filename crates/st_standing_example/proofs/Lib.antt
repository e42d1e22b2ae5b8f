mod Filled
mod Legal
mod Pages
mod Readable
mod Schema
mod Standing
