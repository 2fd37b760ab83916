mod Somewhere
