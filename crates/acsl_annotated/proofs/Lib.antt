mod Mapping
