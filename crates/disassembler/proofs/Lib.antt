mod SheetText
mod Defined
