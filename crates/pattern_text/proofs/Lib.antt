mod Adding
mod FaultLines
mod Counting
mod WholeText
