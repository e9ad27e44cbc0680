mod Linking
