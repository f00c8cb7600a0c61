mod Forcing
mod Reading
