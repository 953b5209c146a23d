mod Asking
mod Showing
mod Standing
mod Answering
mod Settling
mod Beginning
mod Agreeing
mod Playing
