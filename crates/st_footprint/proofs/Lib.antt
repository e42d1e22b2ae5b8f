mod Numbers
mod Rising
mod Noted
mod Footprints
