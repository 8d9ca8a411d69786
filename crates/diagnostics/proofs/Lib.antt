mod TerminalTexts
mod Blanks
