mod Printed
mod Read
