mod Complement
