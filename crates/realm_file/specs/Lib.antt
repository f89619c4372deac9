pub mod RealmText
